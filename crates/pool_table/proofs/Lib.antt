pub mod Accesses
pub mod Copies
pub mod ListedNumbers
pub mod Fresh
pub mod Growths
mod Imports
pub mod Kept
pub mod Listed
pub mod Made
pub mod Mapped
pub mod Stored
pub mod Words
pub mod Zeros
