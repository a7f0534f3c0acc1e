pub mod Reasons
pub mod Spelling
pub mod Theorems
