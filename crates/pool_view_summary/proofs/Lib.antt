pub mod Adding
pub mod Counting
pub mod Joining
pub mod SummedUp
