pub mod SlipLaws
pub mod CopyLaws
pub mod Enough
pub mod WrongRooms
