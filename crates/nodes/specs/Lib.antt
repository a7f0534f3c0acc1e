pub mod FaultExactly
pub mod Kinds
pub mod Lists
pub mod Sound
pub mod Theorems
pub mod Laws
