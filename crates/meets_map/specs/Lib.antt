pub mod Places
pub mod Theorems
pub mod Laws
