pub mod Items
pub mod Keeping
pub mod Growing
pub mod Acting
pub mod Knowing
