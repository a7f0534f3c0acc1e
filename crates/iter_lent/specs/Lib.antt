pub mod Lent
pub mod Theorems
