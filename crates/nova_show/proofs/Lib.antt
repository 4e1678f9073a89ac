pub mod Saves
pub mod Costs
