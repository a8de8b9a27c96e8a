pub mod MakingLaws
pub mod Shortening
pub mod Enough
