pub mod Rows
pub mod Columns
pub mod Tagged
pub mod Object
pub mod Worked
pub mod inner
