pub mod Atomics
pub mod Copying
pub mod Creators
pub mod Dynamic
pub mod Growing
mod Imports
pub mod Layouts
pub mod Linear
pub mod LinearStates
pub mod Making
pub mod Malloc
pub mod Mapped
pub mod Memories
pub mod MemoryStates
pub mod Moving
pub mod Starting
pub mod Static
