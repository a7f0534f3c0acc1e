pub mod Many
pub mod Seen
