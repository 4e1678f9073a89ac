pub mod Undone
pub mod Reduced
pub mod Placed
pub mod Ruled
