pub mod Endings
pub mod Saying
pub mod Tracing
