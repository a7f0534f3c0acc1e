pub mod Kinds
pub mod PlacingLaws
