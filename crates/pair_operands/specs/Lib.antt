pub mod Operands
pub mod steps
