pub mod RowLaws
pub mod AllKept
pub mod ReplacementKeeps
pub mod YBraids
pub mod WrongRows
