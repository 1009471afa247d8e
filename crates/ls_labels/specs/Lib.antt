pub mod Labelled
pub mod Labels
pub mod Names
pub mod Objects
pub mod Threads
pub mod Words
