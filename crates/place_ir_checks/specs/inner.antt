pub mod NodeLookups
pub mod Checks
