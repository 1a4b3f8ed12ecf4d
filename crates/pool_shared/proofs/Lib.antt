pub mod Distinct
pub mod First
pub mod Growth
pub mod Lawful
pub mod Making
pub mod Marking
pub mod Tickets
