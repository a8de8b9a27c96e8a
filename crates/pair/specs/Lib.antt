pub mod Action
pub mod ByRows
pub mod Good
pub mod InverseLists
pub mod PairQuestions
pub mod steps
