pub mod Leaf
pub mod NodeLine
pub mod Path
pub mod Walk
