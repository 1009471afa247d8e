pub mod Answers
pub mod Passing
pub mod Pieces
pub mod Printing
pub mod Reading
pub mod Records
pub mod RoundTrip
pub mod Table
