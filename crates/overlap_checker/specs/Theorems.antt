pub mod Answers
pub mod Ascending
pub mod Bits
pub mod Checks
pub mod Faults
pub mod MarkLaws
pub mod WhoIsNamed
