pub mod Decimal
pub mod Example
pub mod Lengths
pub mod Unique
