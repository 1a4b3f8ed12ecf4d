pub mod ImageErrors
pub mod Images
pub mod Orders
pub mod ResetLaws
pub mod Resets
pub mod Slots
