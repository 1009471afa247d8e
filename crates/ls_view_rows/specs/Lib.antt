pub mod Traces
pub mod States
pub mod Pages
pub mod Aims
