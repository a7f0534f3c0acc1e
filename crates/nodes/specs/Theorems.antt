pub mod FaultExactly
pub mod Sound
