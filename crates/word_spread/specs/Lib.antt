pub mod Spread
pub mod steps
