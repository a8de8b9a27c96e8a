pub mod SignLaws
pub mod StoredLaws
pub mod ThereAndBack
pub mod PaddedRows
pub mod LongStored
pub mod WrongPrograms
