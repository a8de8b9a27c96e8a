pub mod PowerLaws
pub mod TableLaws
