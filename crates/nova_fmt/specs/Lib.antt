pub mod Kinds
pub mod Gaps
pub mod Formatting
pub mod Same
