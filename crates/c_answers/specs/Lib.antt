pub mod Counts
pub mod Maps
pub mod Parts
pub mod Stores
pub mod Told
