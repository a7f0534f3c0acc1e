pub mod Verify
pub mod Same
