pub mod SpreadLines
pub mod steps
