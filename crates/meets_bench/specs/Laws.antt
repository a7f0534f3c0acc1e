pub mod Files
pub mod Same
