pub mod QuestionLaws
pub mod ListLaws
pub mod SearchLaws
pub mod DigitLaws
pub mod PackLaws
pub mod RowLaws
pub mod FileLaws
