pub mod MoveLaws
pub mod MoveByMove
pub mod ListClaim
pub mod RewriterAnswer
pub mod LongLists
pub mod CodeRows
pub mod CodeKinds
pub mod CodeList
