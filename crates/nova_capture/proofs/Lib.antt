pub mod NextOption
pub mod Taken
