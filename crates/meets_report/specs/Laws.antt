pub mod Lines
pub mod Shown
pub mod Kept
pub mod Handed
