pub mod Banks
pub mod Ordered
pub mod Blocks
pub mod Cases
