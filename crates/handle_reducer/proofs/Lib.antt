pub mod HandleAnswer
pub mod HandlesKeepMeaning
pub mod CodeReducer
pub mod ReducerContract
pub mod WrongReducers
