pub mod Ranges
pub mod Standing
pub mod Same
pub mod Formed
pub mod Turning
pub mod Whole
pub mod Walks
