pub mod Counts
pub mod Growth
mod Imports
pub mod Made
pub mod Moves
