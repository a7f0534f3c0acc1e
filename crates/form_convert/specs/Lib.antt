pub mod Convert
pub mod Told
pub mod Theorems
pub mod Laws
