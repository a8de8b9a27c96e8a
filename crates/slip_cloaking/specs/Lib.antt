pub mod Cloaking
