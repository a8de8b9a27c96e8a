pub mod ListLines
pub mod SpreadTexts
pub mod PaperText
