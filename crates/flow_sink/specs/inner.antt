pub mod Sinking
pub mod Above
pub mod Ordering
