pub mod ItemLaws
pub mod Sights
