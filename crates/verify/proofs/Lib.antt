pub mod Cursors
pub mod Filling
pub mod Walking
pub mod Room
pub mod Unique
