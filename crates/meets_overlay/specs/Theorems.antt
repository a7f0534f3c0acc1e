pub mod Range
pub mod Runs
