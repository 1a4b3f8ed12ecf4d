pub mod Counts
pub mod Items
pub mod LineFeeds
pub mod Lists
pub mod Members
pub mod Pairs
pub mod Pieces
pub mod Texts
