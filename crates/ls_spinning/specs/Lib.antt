pub mod Turning
pub mod Told
pub mod Mute
pub mod Moves
pub mod States
pub mod Heard
pub mod Sounding
