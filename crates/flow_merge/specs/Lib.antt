pub mod Contracted
pub mod inner
pub mod Wanted
