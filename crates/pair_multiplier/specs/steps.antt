pub mod InversePositions
