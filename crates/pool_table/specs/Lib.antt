pub mod Elements
pub mod FailingNumbers
pub mod Growing
pub mod Making
pub mod Stores
pub mod TableStates
pub mod Tables
pub mod Views
