pub mod Granted
pub mod Guarded
pub mod Images
mod Imports
pub mod InTurns
pub mod Leased
pub mod Refusing
pub mod Requested
