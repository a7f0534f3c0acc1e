pub mod Keeping
pub mod Kept
pub mod OneBit
pub mod PageFacts
pub mod Told
