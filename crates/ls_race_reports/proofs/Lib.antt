pub mod Same
pub mod Sure
