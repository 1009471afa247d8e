pub mod Places
pub mod Told
pub mod MergeLemmas
pub mod Sorted
pub mod BlockLemmas
pub mod HeadLemmas
pub mod EntryLemmas
pub mod Listed
