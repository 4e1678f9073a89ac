pub mod Fronts
pub mod Stored
pub mod TakenBytes
pub mod Coming
pub mod Counting
pub mod Chain
