pub mod Assigned
pub mod inner
