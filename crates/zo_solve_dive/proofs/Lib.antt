pub mod Along
pub mod Placed
pub mod Rows
pub mod Spread
pub mod Choice
