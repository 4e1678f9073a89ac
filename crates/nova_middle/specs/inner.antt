pub mod Simple
pub mod Lasts
pub mod Parts
