pub mod Tried
pub mod Sound
pub mod Ruled
pub mod Verdicts
pub mod Paging
pub mod Ways
pub mod Answers
