pub mod Marks
pub mod Scopes
pub mod Uses
pub mod Sought
pub mod Seen
pub mod Courses
pub mod Places
