pub mod Tables
pub mod Bits
pub mod Definitions
pub mod Sums
pub mod Needed
pub mod inner
