pub mod Calls
pub mod Entries
pub mod Reached
pub mod Shown
pub mod Unique
