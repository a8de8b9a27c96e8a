pub mod Binary
pub mod Polynomial
pub mod Fields
pub mod Gf32
pub mod Elements
pub mod steps
