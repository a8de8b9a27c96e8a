pub mod Slips
pub mod Copies
