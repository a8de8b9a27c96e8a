pub mod ShorterLaws
pub mod WrongPrograms
