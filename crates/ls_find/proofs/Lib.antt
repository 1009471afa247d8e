pub mod Flags
mod Cuts
pub mod Shown
pub mod Waits
pub mod Wholes
pub mod Goodness
pub mod Legalities
pub mod Simpler
pub mod Followed
pub mod ReadBack
pub mod Turned
pub mod Likenesses
