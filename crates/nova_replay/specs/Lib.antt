pub mod Frames
pub mod Fates
pub mod Replaying
