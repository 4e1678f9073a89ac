pub mod Recovered
pub mod Seen
pub mod Walked
pub mod Valued
pub mod Loops
pub mod Ruled
pub mod Pointed
pub mod Decided
