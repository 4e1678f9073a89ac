pub mod LineColumn
pub mod Number
pub mod Line
pub mod Format
pub mod Left
