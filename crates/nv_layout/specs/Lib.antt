pub mod OutlineView
pub mod FieldList
pub mod Shaping
pub mod inner
