pub mod Handed
pub mod Sizes
pub mod Theorems
