pub mod Dialect
pub mod steps
