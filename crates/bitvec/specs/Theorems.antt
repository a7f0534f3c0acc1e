pub mod Bits
pub mod Clear
pub mod HexDigits
pub mod Ones
pub mod Part
pub mod Written
