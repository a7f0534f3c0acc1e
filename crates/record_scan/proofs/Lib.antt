pub mod Ends
pub mod Laws
pub mod Loops
pub mod WindowLaws
pub mod Unique
