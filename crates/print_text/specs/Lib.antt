pub mod Ascii
pub mod Decimal
pub mod Lengths
pub mod Lines
pub mod Puts
pub mod Theorems
pub mod Laws
