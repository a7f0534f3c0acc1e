pub mod Printed
pub mod Laws
pub mod Theorems
