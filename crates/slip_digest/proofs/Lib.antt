pub mod HalfByte
pub mod RunLaws
pub mod Encoded
pub mod PureBraidPowers
