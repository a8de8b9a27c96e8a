pub mod ChargedAfter
pub mod FairRounds
pub mod OthersReach
pub mod WrongCharges
