pub mod AllBlocks
pub mod BlockList
pub mod BlockTurns
pub mod Figures
pub mod LineLaws
pub mod TextRoom
pub mod Unique
pub mod Whole
