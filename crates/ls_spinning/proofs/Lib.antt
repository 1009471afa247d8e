pub mod Seeing
pub mod Covering
pub mod Staying
pub mod Hearing
pub mod Marking
pub mod Loud
pub mod Led
