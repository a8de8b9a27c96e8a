pub mod Kinds
pub mod Rewriting
pub mod steps
