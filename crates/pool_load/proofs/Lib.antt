pub mod Drawing
pub mod Lists
pub mod Valid
