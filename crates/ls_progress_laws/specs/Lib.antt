pub mod Progress
pub mod Strides
pub mod From
pub mod Again
pub mod Laws
pub mod Livelocks
pub mod Rows
