pub use Rattle.nv_meaning_values.specs.Values
pub use Rattle.nv_meaning_values.specs.Operators
pub use Rattle.nv_meaning_values.specs.Running
pub use Rattle.nv_meaning_values.specs.Declarations
pub use Rattle.nv_meaning_values.specs.Packing
pub mod Meaning
pub mod Laws
pub mod inner
