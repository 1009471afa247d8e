pub mod FileLines
pub mod Words
