pub mod CloakLaws
pub mod CloakIff
pub mod ChangeOfLayout
