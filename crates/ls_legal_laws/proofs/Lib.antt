pub mod Lists
pub mod Calls
pub mod Ends
pub mod Naming
pub mod Only
pub mod Twins
pub mod Explained
pub mod Ordered
