pub mod FirstPlaces
pub mod HandleLaws
pub mod Starts
pub mod StepKeeps
pub mod Runs
pub mod FreeWords
