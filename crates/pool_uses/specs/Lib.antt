pub mod Requests
pub mod Threads
