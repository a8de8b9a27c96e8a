pub mod PlaceLaws
pub mod Beginnings
pub mod EndLaws
