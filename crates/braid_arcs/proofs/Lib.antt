pub mod ArcLaws
pub mod RelayingKeeps
