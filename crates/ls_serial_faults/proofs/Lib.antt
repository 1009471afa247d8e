mod FirstFaults
mod Adding
mod Reached
