pub mod Built
pub mod Laws
pub mod Theorems
