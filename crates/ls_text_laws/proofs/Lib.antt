pub mod Kept
pub mod Names
pub mod Follows
pub mod Lines
pub mod Noted
pub mod Runs
pub mod Whole
pub mod Schedules
