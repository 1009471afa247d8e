pub mod Spending
pub mod Rounds
pub mod Running
