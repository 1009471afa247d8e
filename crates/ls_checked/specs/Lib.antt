pub mod CheckedTree
pub mod CheckedProgram
pub mod Plain
pub mod PlainProgram
pub mod Limits
