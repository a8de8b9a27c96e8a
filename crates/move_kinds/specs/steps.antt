pub mod Leaving
pub mod Lists
