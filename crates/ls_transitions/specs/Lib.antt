pub mod Tables
pub mod Moves
pub mod Acting
pub mod SeenTables
pub mod Known
pub mod Seen
