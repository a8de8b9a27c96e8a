pub mod ConvertingLaws
pub mod TypedParts
