pub mod Decides
pub mod Meets
pub mod Ticket9
pub mod Cases
pub mod Calls
