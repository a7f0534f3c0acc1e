pub mod Filed
pub mod Paged
pub mod Theorems
pub mod Laws
