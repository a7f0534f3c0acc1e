pub mod CoverFacts
pub mod ListFacts
pub mod Order
pub mod RangeFacts
pub mod RunFacts
