pub mod Whole
pub mod Runs
pub mod Put
pub mod List
pub mod Laws
