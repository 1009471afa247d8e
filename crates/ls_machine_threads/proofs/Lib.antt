pub mod Frames
pub mod Rooms
pub mod SameLists
pub mod Saving
