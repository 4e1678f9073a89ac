pub mod Tokens
pub mod Items
pub mod Readable
pub mod Adding
