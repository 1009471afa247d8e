pub mod Tallies
pub mod Printing
pub mod Places
pub mod Plain
pub mod Laws
pub mod Blocks
pub mod Heads
pub mod Reading
