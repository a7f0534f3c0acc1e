pub mod EntryLaws
pub mod MapLaws
pub mod Unique
