-- What only functions inside the crate promise each other.
pub mod Classes
pub mod Front
pub mod Placing
