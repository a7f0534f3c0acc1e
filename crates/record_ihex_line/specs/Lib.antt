pub mod Format
pub mod ReadBack
pub mod Theorems
pub mod Laws
