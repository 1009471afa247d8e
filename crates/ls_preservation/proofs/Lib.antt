pub mod Lists
pub mod Meaning
pub mod Setting
pub mod Runs
pub mod LiftBack
pub mod LiftForth
pub mod ReadPlans
pub mod Feeding
pub mod Cells
pub mod Effects
pub mod FieldCases
pub mod ItemCases
pub mod LockCases
pub mod PairCases
pub mod AllCases
pub mod Answers
pub mod LockWords
pub mod UsualMoves
pub mod Codes
pub mod PartsThere
pub mod Others
pub mod LockCells
pub mod Middle
pub mod Following
pub mod BothAct
pub mod ActingBack
pub mod LocksBack
pub mod StepBack
pub mod Between
pub mod BurstActs
pub mod Bursts
pub mod StepForth
pub mod Total
pub mod Histories
pub mod Births
pub mod Theorem
pub mod Determined
pub mod Example
pub mod ExampleSound
pub mod Shorter
mod Exchanging
mod OwnParts
mod Meets
mod SameFed
mod LockFed
mod FedByWords
mod AskedByWords
pub mod Reached
pub mod Quieted
pub mod Once
pub mod Alone
pub mod LocksAct
pub mod Read
pub mod Acts
pub mod Endless
pub mod Refused
