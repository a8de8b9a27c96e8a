pub mod SameBraids
pub mod FreeReduction
