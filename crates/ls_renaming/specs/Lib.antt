pub mod Names
pub mod Seen
pub mod Constants
pub mod Nameless
pub mod Renumbered
