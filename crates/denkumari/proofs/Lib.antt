pub mod ConversionLaws
pub mod FormLaws
pub mod MapLaws
pub mod ProfileLaws
pub mod StoreLaws
pub mod TableLaws
pub mod Unique
