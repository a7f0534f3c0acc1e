pub mod CoverFacts
pub mod Order
pub mod Range
pub mod RunFacts
