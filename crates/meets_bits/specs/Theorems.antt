pub mod Hex
pub mod Part
pub mod Blocks
pub mod Cases
pub mod Sizes
