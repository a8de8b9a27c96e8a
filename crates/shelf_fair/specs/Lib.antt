pub mod FairUse
