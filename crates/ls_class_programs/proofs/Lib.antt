pub mod Refused
pub mod Steps
pub mod Counted
pub mod Choices
pub mod Lines
pub mod EntrySteps
