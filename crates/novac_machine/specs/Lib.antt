pub mod Saving
pub mod Machine
pub mod Assembly
pub mod Scheduled
pub mod Peeping
pub mod inner
