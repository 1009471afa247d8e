pub mod Faults
pub mod Noted
