pub mod Turning
pub mod Breaking
pub mod Waits
pub mod Laws
