pub mod ClassFlags
pub mod Sure
pub mod Words
pub mod Verdicts
pub mod Beside
