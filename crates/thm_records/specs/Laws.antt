pub mod Back
pub mod Copied
pub mod Trip
