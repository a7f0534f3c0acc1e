pub mod Broken
pub mod Decides
pub mod Exactly
pub mod Meets
