pub mod Threads
pub mod Samples
