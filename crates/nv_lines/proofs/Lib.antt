pub mod Between
pub mod LineLemmas
pub mod NumberLemmas
pub mod SplitLaws
pub mod FormatLaws
pub mod NumberLaws
