pub mod Layout
pub mod Product
pub mod Elimination
pub mod ByRows
pub mod steps
