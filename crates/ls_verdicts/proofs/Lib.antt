pub mod Named
pub mod Outcomes
pub mod HopelessRuns
pub mod Illegal
pub mod Begins
pub mod Leasts
pub mod Acting
