pub mod InProfile
pub mod Pages
pub mod Ragged
pub mod Theorems
pub mod Laws
