pub mod Verdicts
pub mod Found
pub mod Family
pub mod Said
pub mod Sought
pub mod Fewest
pub mod Doubles
pub mod Likeness
