pub mod Letters
pub mod Exponent
pub mod Strands
pub mod Words
pub mod Cancellation
pub mod Reduction
pub mod steps
