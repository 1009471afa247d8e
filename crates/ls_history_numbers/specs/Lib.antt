pub mod Numbers
pub mod Chosen
pub mod Choices
