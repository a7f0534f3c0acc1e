pub mod Counts
pub mod Kinds
pub mod RowParts
pub mod Sound
