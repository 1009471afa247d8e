pub mod Ahead
pub mod Breaks
pub mod Excused
pub mod Fine
pub mod Left
pub mod Places
pub mod Runs
mod Pending
