pub mod View
pub mod Places
pub mod Tables
pub mod Sizes
pub mod TableView
pub mod Interrupting
