pub mod Tree
pub mod Spelled
pub mod Elaborated
pub mod Text
pub mod Programs
pub mod Histories
pub mod Images
pub mod Examples
