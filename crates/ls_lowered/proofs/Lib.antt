pub mod Rows
pub mod ExpressionCases
pub mod StatementCases
pub mod Taken
