pub mod Placed
pub mod Promised
