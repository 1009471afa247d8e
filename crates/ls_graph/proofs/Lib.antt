pub mod Lists
pub mod Growing
pub mod Founding
pub mod Walking
pub mod Weighing
pub mod Changes
pub mod Cheap
pub mod Runs
