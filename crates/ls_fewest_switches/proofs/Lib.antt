pub mod Items
pub mod Ending
pub mod ActingSteps
pub mod Told
pub mod Running
pub mod Left
pub mod Lefts
pub mod Shorter
