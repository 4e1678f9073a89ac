pub mod Begun
pub mod Formed
pub mod Named
pub mod Objects
pub mod OneCause
pub mod OneSource
pub mod Programs
