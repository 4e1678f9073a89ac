pub mod Facts
pub mod Thinner
pub mod Turned
pub mod Elsewhere
pub mod inner
