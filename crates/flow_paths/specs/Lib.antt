pub mod Ranges
pub mod Decided
pub mod inner
