pub mod Judged
pub mod Stepped
pub mod Watched
pub mod Laws
pub mod Wholes
