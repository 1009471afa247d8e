pub mod Written
pub mod Expressions
pub mod Calls
pub mod Statements
pub mod Files
pub mod Monitors
pub mod Programs
