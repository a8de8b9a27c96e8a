pub mod Constants
pub mod Lanes
