pub mod Grounds
pub mod InTurn
pub mod Typed
pub mod Theorems
pub mod Laws
