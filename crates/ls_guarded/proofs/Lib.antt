pub mod Silent
pub mod Found
pub mod Grows
pub mod Guards
pub mod Calm
pub mod OnOne
pub mod Holding
