pub mod Calls
pub mod Map
pub mod Steps
pub mod Theorems
pub mod Laws
