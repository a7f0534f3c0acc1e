pub mod PlacingLaws
pub mod Plan
pub mod Walked
