pub mod Placing
pub mod PlacingLaws
pub mod Plan
pub mod Steps
pub mod Theorems
pub mod Laws
