pub mod March
pub mod Theorems
pub mod Laws
