pub mod Saves
pub mod Loaded
pub mod OneSchedule
pub mod OwnEntries
pub mod Turns
pub mod Peeped
