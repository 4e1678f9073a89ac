pub mod LineLemmas
pub mod TextLemmas
pub mod Reading
pub mod Bounds
