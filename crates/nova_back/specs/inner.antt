pub mod Paired
pub mod Search
pub mod Unbuilt
