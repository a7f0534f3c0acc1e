pub mod Limits
pub mod Pick
pub mod Refusals
pub mod Verdict
pub mod Told
pub mod Theorems
pub mod Laws
