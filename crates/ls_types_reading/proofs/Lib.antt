pub mod ByName
pub mod FewThreads
pub mod Standing
pub mod Tokens
