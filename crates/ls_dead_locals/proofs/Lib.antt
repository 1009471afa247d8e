pub mod Spared
pub mod Alike
pub mod Ignoring
pub mod Stacked
pub mod Forgotten
