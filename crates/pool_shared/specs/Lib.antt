pub mod Asks
pub mod Bounds
pub mod Holds
pub mod Laws
pub mod Shared
pub mod Spot
pub mod Spots
pub mod Tickets
