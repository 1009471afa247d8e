pub mod Labels
pub mod Texts
pub mod Reading
pub mod Runs
pub mod Aims
pub mod Answers
pub mod Seen
pub mod Met
