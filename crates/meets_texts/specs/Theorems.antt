pub mod Convert
pub mod Reason
pub mod Rehex
