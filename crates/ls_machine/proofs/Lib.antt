pub mod Stepping
pub mod Whole
pub mod Starting
pub mod Keeping
pub mod Back
pub mod SameAt
pub mod Saving
pub mod Stays
