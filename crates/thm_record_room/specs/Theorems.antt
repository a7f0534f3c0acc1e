pub mod Calls
pub mod Room
