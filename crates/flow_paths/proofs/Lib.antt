pub mod Bounds
pub mod Telling
pub mod Means
pub mod Kept
pub mod Along
