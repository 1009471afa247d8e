pub mod Verdicts
pub mod Outcomes
pub mod Hopeless
pub mod Cuts
