pub mod Said
pub mod Texts
pub mod Faults
pub mod Limits
pub mod Printed
pub mod Groups
pub mod GroupFaults
