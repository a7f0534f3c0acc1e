pub mod Cells
pub mod Marks
pub mod ReadBack
pub mod Steps
pub mod Text
pub mod Theorems
pub mod Laws
pub mod SameText
