pub mod Calls
pub mod Pieces
pub mod Room
pub mod Records
