pub mod MultiplyLaws
