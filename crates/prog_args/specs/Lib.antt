pub mod Counts
pub mod Number
pub mod Text
pub mod Theorems
pub mod Laws
