pub mod Answered
pub mod Loops
pub mod Searches
pub mod Unique
