pub mod Sunk
pub mod inner
pub mod Values
pub mod Ordered
