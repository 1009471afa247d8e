pub mod NameLemmas
pub mod Ordering
pub mod TellingLemmas
mod Rising
pub mod Firsts
pub mod Added
pub mod Fewer
pub mod Placed
pub mod Ahead
