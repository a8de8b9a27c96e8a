pub mod Shortener
pub mod steps
