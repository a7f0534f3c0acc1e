mod Pieces
mod HexLaws
mod OnesLaws
pub mod Unique
