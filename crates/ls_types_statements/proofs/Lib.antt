pub mod Nodes
pub mod Blocks
pub mod BlockRows
