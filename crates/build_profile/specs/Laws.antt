pub mod Exactly
pub mod Keeping
pub mod OneBit
pub mod PageFacts
pub mod RuleLaws
