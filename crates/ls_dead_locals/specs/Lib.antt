pub mod Dead
pub mod Around
pub mod Same
