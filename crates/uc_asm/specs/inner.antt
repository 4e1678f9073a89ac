pub mod First
pub mod Seen
pub mod Gives
pub mod Resolving
pub mod Reading
pub mod Numbered
