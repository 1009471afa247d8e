pub mod Left
pub mod Decided
