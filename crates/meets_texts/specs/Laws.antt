pub mod AnyRoom
pub mod Bytes
pub mod Shown
