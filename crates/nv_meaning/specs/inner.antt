pub use Rattle.nv_meaning_values.specs.inner.View
pub mod Ran
pub mod Operand
pub mod Weight
pub mod Blanks
