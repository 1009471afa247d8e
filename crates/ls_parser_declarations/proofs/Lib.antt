pub mod OntoDeclarations
pub mod DeclarationsRead
pub mod Steps
pub mod Places
