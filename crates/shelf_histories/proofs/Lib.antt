pub mod HeldAfter
pub mod LastLoad
pub mod Separation
pub mod Kept
pub mod OthersBytes
pub mod WrongPrograms
