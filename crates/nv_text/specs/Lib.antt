pub mod Limits
pub mod Tables
pub mod Spelling
pub mod Tokens
pub mod Program
pub mod Spelt
pub mod inner
