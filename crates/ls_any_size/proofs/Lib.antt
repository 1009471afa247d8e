pub mod Goodness
