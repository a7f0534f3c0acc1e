pub mod ReadBack
pub mod Srec
pub mod Theorems
pub mod Laws
