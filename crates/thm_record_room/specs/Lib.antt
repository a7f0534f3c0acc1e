pub mod Calls
pub mod Pieces
pub mod Records
pub mod Theorems
pub mod Laws
