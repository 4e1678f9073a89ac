pub mod Close
pub mod Steps
