pub mod Bounds
pub mod Bodies
pub mod Ends
