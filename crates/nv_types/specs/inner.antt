pub mod Finding
pub mod Measuring
