pub mod Specified
