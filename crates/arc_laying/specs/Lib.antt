pub mod Plans
pub mod steps
