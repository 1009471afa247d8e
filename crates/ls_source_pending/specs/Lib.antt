pub mod Pending
pub mod ExpressionMoves
pub mod Moves
pub mod Meaning
pub mod Seen
pub mod SeenPending
pub mod Filled
