pub mod Replacement
pub mod steps
