pub mod ByLabel
pub mod ReadOff
pub mod inner
