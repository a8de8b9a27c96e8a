pub mod CodeRewrite
pub mod RewritingKeepsMeaning
pub mod RewriterContract
pub mod CrossingsKept
pub mod TellingInputs
pub mod WrongRewriters
