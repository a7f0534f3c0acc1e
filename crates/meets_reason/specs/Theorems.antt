pub mod Decides
pub mod Meets
pub mod Told
