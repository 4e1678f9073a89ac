pub mod Flat
pub mod Handled
