pub mod Lines
pub mod ReadBack
pub mod Writes
