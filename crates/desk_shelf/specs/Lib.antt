pub mod Serving
pub mod steps
