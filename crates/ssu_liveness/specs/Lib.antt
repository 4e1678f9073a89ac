pub mod LiveRows
pub mod inner
