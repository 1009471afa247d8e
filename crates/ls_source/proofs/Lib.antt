pub mod StoresAndEvents
pub mod Starts
pub mod Histories
pub mod Lefts
pub mod Calls
pub mod Kept
pub mod Standing
