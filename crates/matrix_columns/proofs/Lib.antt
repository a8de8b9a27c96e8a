pub mod LaneLaws
pub mod BitLaws
pub mod TimesLaws
pub mod ColumnLaws
pub mod ConstantLaws
