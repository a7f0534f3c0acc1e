pub mod Blocks
pub mod Places
pub mod Printed
pub mod Room
pub mod Unique
