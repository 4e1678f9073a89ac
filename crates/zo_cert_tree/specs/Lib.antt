pub mod Certificate
pub mod Fixing
pub mod Node
pub mod Searched
pub mod Spent
pub mod inner
