pub mod Judged
pub mod Searched
pub mod Watching
pub mod Windows
