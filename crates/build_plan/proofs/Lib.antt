pub mod Carried
pub mod OfferLaws
pub mod PlanLaws
pub mod Unique
