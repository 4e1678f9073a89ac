pub mod Status
pub mod Lines
pub mod Command
pub mod Limits
pub mod Inputs
pub mod inner
