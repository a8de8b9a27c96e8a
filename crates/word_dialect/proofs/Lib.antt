pub mod PartLaws
pub mod EachLaws
pub mod InverseWords
pub mod ConversionLaws
pub mod TableLaws
pub mod ConvertLaws
pub mod RoundTrip
pub mod WrongPrograms
