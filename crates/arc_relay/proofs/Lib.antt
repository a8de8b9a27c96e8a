pub mod RowLaws
pub mod RelayLaws
pub mod WrongRelays
