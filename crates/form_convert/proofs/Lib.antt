pub mod Back
pub mod Laws
pub mod Loops
pub mod There
pub mod Unique
