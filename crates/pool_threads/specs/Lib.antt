pub mod Asked
pub mod GrowthFaults
pub mod Noted
pub mod Sharing
pub mod Working
