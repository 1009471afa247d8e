pub mod Refused
pub mod Laws
pub mod Loops
pub mod Temporaries
pub mod Lowered
pub mod ValueWords
pub mod Calls
