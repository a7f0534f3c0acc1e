pub mod Bytes
pub mod Cut
pub mod Exactly
pub mod Rising
pub mod Said
pub mod Shape
pub mod Text
pub mod Width
