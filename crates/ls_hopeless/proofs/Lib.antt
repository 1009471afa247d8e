pub mod Ends
pub mod First
pub mod Lines
