pub mod AsBuilt
pub mod Decides
pub mod Fault
pub mod Meets
pub mod Numbers
pub mod Promised
