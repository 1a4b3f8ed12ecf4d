pub mod HeldLaws
pub mod Waiting
