pub mod Closed
pub mod Pending
pub mod View
