pub mod Blocks
pub mod Runs
