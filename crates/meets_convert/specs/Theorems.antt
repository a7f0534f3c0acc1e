pub mod Alone
pub mod Decides
pub mod Exactly
pub mod Example
pub mod Meets
pub mod OldReader
pub mod SameBuild
pub mod Trips
