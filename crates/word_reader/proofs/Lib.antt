pub mod CodeLaws
pub mod ReadsAll
pub mod WrongPrograms
