pub mod Cases
pub mod InCall
pub mod Laws
pub mod Meaning
pub mod Kept
