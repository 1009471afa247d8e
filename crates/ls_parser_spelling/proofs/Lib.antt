pub mod MoreKinds
pub mod Nodes
pub mod Rows
pub mod StatementRows
pub mod Wholes
pub mod Forgets
pub mod Puts
pub mod Views
