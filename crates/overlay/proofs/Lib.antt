pub mod BlockLaws
pub mod CoverLaws
pub mod RunLaws
pub mod StretchLaws
pub mod WalkLaws
pub mod Room
pub mod AnswerLaws
pub mod Unique
