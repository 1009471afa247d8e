pub mod Volatile
pub mod Met
pub mod Moves
pub mod Races
pub mod Extents
pub mod Flags
pub mod Sought
