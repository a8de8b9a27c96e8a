pub mod GapLaws
pub mod TurnLaws
pub mod RunEnds
