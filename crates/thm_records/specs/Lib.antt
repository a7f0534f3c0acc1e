pub mod Joined
pub mod Trip
pub mod Theorems
pub mod Laws
