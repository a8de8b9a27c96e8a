pub mod GroupLaws
pub mod StoreLaws
