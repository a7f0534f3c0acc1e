pub mod Signed
pub mod PaceLaws
pub mod Unique
