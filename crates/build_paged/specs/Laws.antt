pub mod InProfile
pub mod Nineteen
pub mod Pages
pub mod Ragged
