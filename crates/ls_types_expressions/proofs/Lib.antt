pub mod Counts
pub mod Nodes
pub mod Rows
