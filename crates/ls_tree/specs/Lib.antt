pub mod Trees
pub mod WellFormed
pub mod Views
pub mod FileView
pub mod PlacedTrees
pub mod Placed
pub mod PlacedStatements
