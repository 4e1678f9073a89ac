pub mod FirstMade
pub mod Unlikes
pub mod Texts
