pub mod HeldLemmas
pub mod Choosing
pub mod Boundaries
