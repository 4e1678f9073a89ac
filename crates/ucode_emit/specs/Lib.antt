pub mod SpillBase
pub mod Operations
pub mod Pieces
pub mod Emits
pub mod inner
pub mod Moves
