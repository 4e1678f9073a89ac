pub mod Checks
pub mod Under
pub mod Sizes
pub mod Running
