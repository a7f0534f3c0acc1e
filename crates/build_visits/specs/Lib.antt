pub mod Items
pub mod Sights
pub mod Spans
pub mod Visits
pub mod Theorems
pub mod Laws
