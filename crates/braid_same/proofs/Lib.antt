pub mod Laws
pub mod Relations
pub mod Cancelling
pub mod Turns
