pub mod Histories
pub mod Rows
pub mod Schedules
