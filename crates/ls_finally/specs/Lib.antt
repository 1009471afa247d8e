pub mod Flat
pub mod Agreement
pub mod Placed
pub mod Counts
pub mod Code
pub mod Laws
pub mod Cases
pub mod Stays
