pub mod Spelled
pub mod Programs
pub mod ProgramCalls
pub mod ThreadPrograms
pub mod Laws
pub mod Faults
pub mod Refusals
pub mod Stops
