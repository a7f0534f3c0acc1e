pub mod Bits
pub mod HexDigits
pub mod Lists
pub mod Numeral
pub mod Ones
pub mod Part
pub mod Within
pub mod Written
