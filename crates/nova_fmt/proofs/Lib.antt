pub mod Writing
pub mod Trimmed
pub mod Between
pub mod Apart
pub mod Kept
