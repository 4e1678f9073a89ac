pub mod Turns
pub mod Footprints
pub mod Alone
pub mod Sets
pub mod Marked
pub mod AsSource
