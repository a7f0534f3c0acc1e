pub mod Program
pub mod Room
pub mod Theorems
pub mod Laws
