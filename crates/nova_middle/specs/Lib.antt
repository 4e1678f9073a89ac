pub mod Reduced
pub mod Rules
pub mod inner
