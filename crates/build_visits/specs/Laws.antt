pub mod ItemLaws
pub mod Upto
pub mod VisitLaws
