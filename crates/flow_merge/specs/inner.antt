pub mod Copied
pub mod Sizes
pub mod Numbered
pub mod Pruned
pub mod Ranked
