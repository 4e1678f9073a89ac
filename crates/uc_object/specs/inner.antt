pub mod Header
pub mod Parts
