pub mod DigitLaws
pub mod Lines
