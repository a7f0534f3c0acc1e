pub mod Records
pub mod Banks
pub mod Shown
