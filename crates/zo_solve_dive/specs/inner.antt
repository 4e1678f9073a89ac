pub mod Keeping
pub mod Better
pub mod Least
