pub mod Acting
pub mod Faults
pub mod MachineRuns
pub mod Room
pub mod RoundTrips
pub mod Texts
