pub mod Specification
