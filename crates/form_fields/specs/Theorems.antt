pub mod Example
pub mod Faults
pub mod Fields
pub mod Filled
pub mod Kind
pub mod Told
