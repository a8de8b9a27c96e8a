pub mod DecimalLaws
pub mod IntegerLaws
pub mod TextLaws
pub mod EnoughLaws
