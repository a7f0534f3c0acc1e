pub mod Decimal
pub mod Ends
pub mod Example
pub mod Lengths
pub mod Sets
