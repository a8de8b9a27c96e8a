pub mod Questions
pub mod Lists
pub mod Digits
pub mod Packing
pub mod Files
pub mod steps
