pub mod NodesMeet
pub mod LayoutMeets
pub mod Meets
pub mod Promised
