pub mod MultiplierLaws
pub mod LentLaws
pub mod FollowLaws
pub mod ChangeOfLayout
pub mod WrongPrograms
pub mod WrongLenders
