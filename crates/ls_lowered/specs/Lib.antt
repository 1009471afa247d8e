pub mod Limits
pub mod LoweredTree
pub mod Plain
pub mod Words
pub mod Course
pub mod Expressions
pub mod Statements
pub mod Methods
