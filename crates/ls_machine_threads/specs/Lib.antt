pub mod Memory
pub mod Threads
