pub mod Answers
pub mod Bytes
pub mod Calls
pub mod Turns
