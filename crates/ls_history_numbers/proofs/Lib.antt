pub mod Lists
pub mod Longer
pub mod Finding
pub mod Telling
pub mod Covering
