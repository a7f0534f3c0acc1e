pub mod Accepted
pub mod Blocks
pub mod Fitting
pub mod Places
pub mod Room
pub mod Table
pub mod Built
