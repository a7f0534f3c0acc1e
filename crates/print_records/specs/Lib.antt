pub mod Text
pub mod Steps
pub mod Theorems
pub mod Laws
