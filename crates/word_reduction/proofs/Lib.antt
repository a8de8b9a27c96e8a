pub mod StackLaws
pub mod ReducerLaws
pub mod ReducedWord
