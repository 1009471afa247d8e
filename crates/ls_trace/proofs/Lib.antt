pub mod Calls
pub mod Digits
pub mod Wholes
pub mod Rests
pub mod LinesLeft
pub mod Quiet
pub mod Told
