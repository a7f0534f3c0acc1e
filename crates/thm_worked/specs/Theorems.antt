pub mod Mapped
pub mod Printed
