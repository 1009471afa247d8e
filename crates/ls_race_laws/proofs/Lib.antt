pub mod Quiet
pub mod Renamed
pub mod Setup
pub mod Shapes
pub mod Racing
