pub mod Faults
pub mod Limits
pub mod Settings
pub mod Values
