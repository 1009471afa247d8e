pub mod Tabled
pub mod Followed
pub mod Meant
pub mod Judges
pub mod Laws
