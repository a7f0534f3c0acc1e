pub mod Images
pub mod Program
pub mod Steps
pub mod Theorems
pub mod Laws
