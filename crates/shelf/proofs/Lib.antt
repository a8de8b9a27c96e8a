pub mod ReplacedLaws
pub mod SlotLaws
pub mod ChargeLaws
pub mod ChipLaws
pub mod CallLaws
