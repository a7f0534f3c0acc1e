pub mod Laying
pub mod Unique
pub mod WritingOver
pub mod WritingSteps
