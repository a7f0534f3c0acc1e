pub mod LineLaws
pub mod Unique
