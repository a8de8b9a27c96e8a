pub mod CloakedPairs
pub mod CloaksAnywhere
pub mod WrongInsertions
