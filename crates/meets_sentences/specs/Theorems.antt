pub mod Decides
pub mod Outcomes
pub mod Image
pub mod AnyOrder
pub mod Padding
pub mod Walk
pub mod Cases
pub mod Edges
