pub mod Joined
pub mod Listed
pub mod Sparing
pub mod Threads
pub mod Workers
