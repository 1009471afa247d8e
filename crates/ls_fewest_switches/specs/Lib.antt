pub mod Switches
pub mod Shortest
pub mod Acting
pub mod Levels
pub mod Wording
pub mod Along
pub mod Among
