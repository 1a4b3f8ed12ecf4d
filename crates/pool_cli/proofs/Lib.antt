pub mod Endings
pub mod LoadReplies
pub mod Numerals
