pub mod CopiedExpressions
pub mod CopiedStatements
pub mod CopiedThreads
pub mod Frames
