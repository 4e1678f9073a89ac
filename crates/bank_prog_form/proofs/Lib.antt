pub mod RowTerms
pub mod Keys
pub mod Loops
pub mod FormLemmas
pub mod Order
pub mod Tabled
pub mod Itself
