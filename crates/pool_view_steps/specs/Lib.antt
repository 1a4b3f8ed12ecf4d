pub mod CallsText
pub mod Commands
pub mod Lines
pub mod Shown
