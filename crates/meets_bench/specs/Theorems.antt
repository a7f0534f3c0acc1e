pub mod Decides
pub mod Meets
