pub mod Marks
pub mod Printed
pub mod ReadBack
pub mod Unique
pub mod SameText
