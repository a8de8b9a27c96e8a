pub mod Relay
pub mod steps
