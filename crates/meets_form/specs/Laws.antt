pub mod Breaks
pub mod FileSo
pub mod FileMeets
pub mod FileSays
pub mod Numbers
pub mod OneLayout
pub mod Read
pub mod Written
