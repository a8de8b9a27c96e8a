pub mod Widths
pub mod KeyFacts
pub mod FileLaws
pub mod EntryLaws
pub mod ChangeOfLayout
pub mod RoundTrip
pub mod WrongPrograms
pub mod Inverses
