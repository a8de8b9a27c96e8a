pub mod Relations
pub mod YWords
