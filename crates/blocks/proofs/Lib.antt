pub mod Laws
pub mod Ordered
pub mod Unique
pub mod Walking
