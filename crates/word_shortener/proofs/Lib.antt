pub mod RouteLaws
pub mod ShortenerLaws
pub mod ShorteningKeepsMeaning
pub mod WrongShorteners
