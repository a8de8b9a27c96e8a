pub mod Crossings
pub mod steps
