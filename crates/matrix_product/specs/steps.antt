pub mod Multiplying
