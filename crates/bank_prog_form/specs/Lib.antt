pub mod Columns
pub mod Rows
pub mod Program
pub mod inner
