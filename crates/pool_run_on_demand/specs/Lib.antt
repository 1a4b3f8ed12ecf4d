pub mod Alike
pub mod Faults
pub mod HeapFaults
mod Imports
pub mod Left
pub mod OnDemand
pub mod Runs
pub mod Seen
