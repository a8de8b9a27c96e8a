pub mod SwapCancelLaws
pub mod KeptLaws
pub mod MarkingLaws
pub mod PackingLaws
