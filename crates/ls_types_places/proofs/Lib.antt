pub mod Anywhere
pub mod Steps
pub mod Expressions
pub mod Statements
pub mod Files
pub mod Texts
