pub mod Blocks
pub mod Places
pub mod Printed
pub mod Report
pub mod Room
pub mod Steps
pub mod Theorems
pub mod Laws
