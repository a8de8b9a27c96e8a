pub mod SwapCancel
pub mod steps
