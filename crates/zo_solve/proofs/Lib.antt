pub mod Endings
pub mod FewBranches
pub mod Grow
pub mod Reports
mod RootLeaf
pub mod Weaker
