pub mod Events
pub mod Runs
pub mod Steps
pub mod Validity
