pub mod Frames
pub mod Replies
pub mod Flows
pub mod Gliding
