pub mod Fronts
pub mod Weights
