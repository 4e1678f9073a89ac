pub mod Form
pub mod Adds
pub mod Owners
