pub mod Places
pub mod Steps
pub mod EachStep
pub mod Lists
