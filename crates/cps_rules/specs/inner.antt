pub mod Way
pub mod Marks
pub mod Marked
