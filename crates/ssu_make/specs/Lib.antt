pub mod Bounds
pub mod Made
pub mod Used
pub mod Uses
pub mod inner
