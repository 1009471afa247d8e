pub mod Costs
pub mod Grown
pub mod Weights
pub mod Graph
pub mod Found
pub mod Walks
pub mod Covering
