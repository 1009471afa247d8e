mod UnitSizes
mod Wholes
mod Rooms
mod Composed
mod BuiltOnce
mod Built
mod Refusals
pub mod UnitLists
pub mod UnitRuns
pub mod ThreadRuns
pub mod SameWords
pub mod InKind
pub mod Running
pub mod Entered
pub mod CallRuns
pub mod Linked
pub mod Exchanged
pub mod Products
pub mod More
pub mod Blocks
pub mod Times
pub mod Outward
pub mod Flats
pub mod ExitCounts
pub mod Returns
pub mod SizeCounts
pub mod Counted
pub mod WholeCounts
pub mod Silent
pub mod SilentExpressions
pub mod SilentStatements
pub mod Onward
pub mod Framed
pub mod OwnSteps
pub mod OwnRuns
pub mod Idles
pub mod Sizes
pub mod Whole
pub mod Lowering
pub mod Copies
mod Segments
mod Below
mod Calls
mod Placed
mod Locals
mod Words
mod Flattens
mod Ahead
mod Exits
mod Flat
mod Emitted
mod Ranges
mod Landing
mod Linking
mod Once
