-- Definitions of the exported interface.
pub mod Exported
