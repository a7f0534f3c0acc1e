pub mod Firsts
pub mod Members
pub mod Puts
pub mod Held
pub mod Faults
pub mod Call
pub mod Turns
pub mod Separate
