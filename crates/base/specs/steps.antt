pub mod Regrouping
pub mod Laying
