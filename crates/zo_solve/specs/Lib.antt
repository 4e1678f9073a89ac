pub mod Reported
pub mod Solved
pub mod inner
