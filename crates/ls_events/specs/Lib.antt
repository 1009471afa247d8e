pub mod Beginnings
pub mod Limits
