pub mod SoFar
pub mod Stepping
pub mod Answering
pub mod Further
mod Splits
pub mod Inside
pub mod Between
pub mod Within
pub mod Covering
pub mod Open
pub mod Apart
pub mod Along
pub mod Parked
pub mod Gone
pub mod Stalls
pub mod ComingBack
pub mod NeverEnding
