pub mod Words
pub mod Locks
pub mod Stages
pub mod Silent
pub mod Acting
pub mod Frames
pub mod Whole
pub mod Limits
