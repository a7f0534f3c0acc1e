pub mod Fitting
pub mod PartLaws
pub mod Sizes
