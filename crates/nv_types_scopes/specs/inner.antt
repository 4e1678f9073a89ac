pub mod Stack
pub mod Judging
pub mod Standing
pub mod Texts
pub mod Patterns
pub mod Walk
pub mod Blocks
pub mod Declarations
