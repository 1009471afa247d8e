pub mod Named
pub mod Calls
pub mod Placing
pub mod Known
pub mod Orders
pub mod Telling
pub mod Once
