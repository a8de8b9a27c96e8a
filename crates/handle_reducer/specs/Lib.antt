pub mod Reducing
