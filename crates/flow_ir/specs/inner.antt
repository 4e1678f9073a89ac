pub mod Scoped
pub mod Pruned
