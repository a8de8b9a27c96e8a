pub mod Shelves
pub mod Charges
pub mod Calls
