pub mod Paged
pub mod Unique
