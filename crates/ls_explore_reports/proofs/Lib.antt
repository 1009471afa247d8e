pub mod BelowRows
pub mod WaitingThreads
pub mod Undoubted
pub mod Others
pub mod Known
pub mod Meant
pub mod CutRows
pub mod FirstSteps
pub mod HopelessRows
pub mod CutTexts
pub mod ListedBeginnings
pub mod GoingOn
mod OrdersOfBeginnings
mod RowsTold
pub mod Collecting
mod Flags
mod RowsLike
pub mod RowsOnce
