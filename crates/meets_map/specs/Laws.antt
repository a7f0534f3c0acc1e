pub mod Shown
pub mod Ended
