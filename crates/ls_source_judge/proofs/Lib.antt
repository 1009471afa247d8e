pub mod Deciding
pub mod Verdicts
pub mod Steps
pub mod WholeRuns
