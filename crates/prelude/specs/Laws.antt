pub mod Bools
pub mod Outcome
pub mod Pick
pub mod Told
