pub mod Rules
pub mod Simplified
pub mod inner
