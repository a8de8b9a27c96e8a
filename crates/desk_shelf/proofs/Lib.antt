pub mod ServingLaws
pub mod EnoughShelf
