pub mod Many
pub mod Surely
pub mod Unique
pub mod Pairs
