pub mod Frames
pub mod Expressions
pub mod Fusion
pub mod Weights
pub mod Measure
pub mod Blocks
