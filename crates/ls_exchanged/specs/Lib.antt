pub mod Exchanged
pub mod Laws
pub mod Doubles
pub mod DoubleLaws
