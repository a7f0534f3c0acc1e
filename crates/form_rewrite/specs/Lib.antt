pub mod Fitting
pub mod Turning
pub mod Theorems
pub mod Laws
