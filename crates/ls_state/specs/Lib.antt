pub mod Parts
pub mod Scene
pub mod Objects
pub mod Asking
pub mod State
pub mod Each
pub mod Seen
pub mod Drawing
