pub mod Words
pub mod Hopeless
