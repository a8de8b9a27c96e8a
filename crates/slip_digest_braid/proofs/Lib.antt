pub mod CodeRows
pub mod CarriedLaws
pub mod ShortBraid
pub mod HalfBytePower
