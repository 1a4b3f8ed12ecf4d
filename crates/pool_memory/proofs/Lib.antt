pub mod Begun
pub mod Bytes
pub mod Copies
pub mod Creations
pub mod Dynamics
pub mod Fresh
pub mod Growths
mod Imports
pub mod Layouts
pub mod Makings
pub mod Mallocs
pub mod Mapped
pub mod Moves
pub mod Raised
pub mod Started
pub mod Statics
