pub mod Digest
pub mod PureBraids
pub mod steps
