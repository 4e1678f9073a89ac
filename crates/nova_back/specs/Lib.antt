pub mod LeftOut
pub mod Placed
pub mod Causes
pub mod inner
