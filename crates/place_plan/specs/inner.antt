pub mod Spilled
pub mod Parts
pub mod Targets
pub mod UseViews
