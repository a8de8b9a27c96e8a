pub mod EntryRows
pub mod EntryLaws
pub mod ReplaceLaws
pub mod ReplacementMeaning
pub mod WrongPrograms
