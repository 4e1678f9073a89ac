pub mod Vector
pub mod Choice
pub mod Pick
pub mod Sums
pub mod inner
