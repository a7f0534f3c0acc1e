pub mod Blank
pub mod Steps
pub mod Writes
pub mod Laws
