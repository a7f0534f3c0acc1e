pub mod Acceptable
pub mod Bits
pub mod Count
pub mod Exactly
pub mod Measure
pub mod Rising
pub mod Row
