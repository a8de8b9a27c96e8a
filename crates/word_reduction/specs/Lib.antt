pub mod Reducer
pub mod steps
