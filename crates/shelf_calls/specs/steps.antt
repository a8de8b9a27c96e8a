pub mod Chip
pub mod Slots
