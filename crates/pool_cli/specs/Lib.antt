pub mod Lines
pub mod Stages
pub mod Statuses
pub mod Words
