pub mod Cuts
pub mod Digits
pub mod FormedLaws
pub mod SignLaws
pub mod Spans
pub mod SplitLaws
pub mod Texts
pub mod WordLaws
