pub mod Raced
pub mod Doubles
pub mod Family
pub mod Quiet
