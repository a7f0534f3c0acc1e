pub mod DefaultBank
pub mod OffersWithin
pub mod Reached
pub mod Rooms
pub mod Unique
