pub mod Followers
pub mod Renames
pub mod RenamesStatements
pub mod RenamesThreads
pub mod Shorter
