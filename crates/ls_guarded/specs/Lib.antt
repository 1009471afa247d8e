pub mod Marks
pub mod Rounds
pub mod Methods
pub mod Guards
pub mod Shapes
pub mod Reasons
pub mod Giving
