pub mod Endings
pub mod Paths
pub mod Saving
pub mod Kinds
