pub mod Scoped
pub mod RowSteps
pub mod Labels
pub mod Kept
pub mod SpotSteps
pub mod Marks
pub mod Numbering
pub mod Covering
