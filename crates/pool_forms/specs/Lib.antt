pub mod Fields
pub mod Forms
mod Imports
pub mod LoadOutput
pub mod ModuleForms
pub mod Output
pub mod Ranges
pub mod Reading
pub mod SettingsForms
pub mod SharedForms
pub mod SharedOutput
pub mod Streams
pub mod Transfers
