pub mod Ticket9
pub mod Laws
pub mod Theorems
