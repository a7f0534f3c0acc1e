pub mod Blocks
pub mod Decimal
pub mod Digits
pub mod Image
pub mod Part
pub mod Spaced
pub mod Unique
pub mod Whole
