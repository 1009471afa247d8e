pub mod Exits
pub mod PlainExits
pub mod Numbers
