pub mod Stepping
pub mod AtOnce
pub mod Renaming
pub mod Configuration
pub mod Noticing
pub mod Search
pub mod Cells
pub mod Histories
