pub mod SpellingLaws
pub mod Walks
pub mod Unique
