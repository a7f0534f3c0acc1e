pub mod Back
pub mod Copied
