pub mod Sound
pub mod Steps
pub mod TrailLaws
pub mod Windows
