pub mod BlockFacts
pub mod ByteFacts
pub mod Facts
pub mod Found
pub mod GivenLaws
pub mod RunLaws
