pub mod Acting
pub mod MachineRuns
pub mod Following
pub mod Promises
pub mod RoomLemmas
pub mod RoundTripLemmas
pub mod SourceSteps
