pub mod Words
pub mod Items
pub mod Text
pub mod Labels
pub mod Starts
pub mod Answer
pub mod Worked
pub mod inner
