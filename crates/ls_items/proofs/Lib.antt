pub mod Division
pub mod Items
pub mod LineLemmas
pub mod PartLemmas
