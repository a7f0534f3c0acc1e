pub mod Figures
pub mod Table
pub mod Theorems
