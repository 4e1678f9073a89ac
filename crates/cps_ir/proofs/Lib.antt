pub mod Steps
pub mod Views
pub mod Growth
pub mod Widths
pub mod Bulks
