pub mod Rehex
pub mod Steps
pub mod Theorems
pub mod Laws
