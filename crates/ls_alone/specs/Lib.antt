pub mod Alone
pub mod Words
