pub mod Walk
pub mod Loops
pub mod Raise
pub mod Unique
