pub mod Facts
pub mod Given
pub mod Outcome
pub mod RunLaws
pub mod Runs
pub mod Steps
pub mod Theorems
pub mod Laws
