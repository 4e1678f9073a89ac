pub mod BitLists
pub mod Rows
pub mod Lists
pub mod Within
pub mod Walks
pub mod Sound
pub mod Shaped
