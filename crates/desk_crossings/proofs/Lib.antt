pub mod LineLaws
pub mod CrossingText
