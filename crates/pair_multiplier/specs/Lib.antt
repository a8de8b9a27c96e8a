pub mod Multiplier
pub mod Lent
pub mod steps
