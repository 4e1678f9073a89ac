pub mod Runs
pub mod Bytes
pub mod LongestToken
pub mod Blanks
pub mod Reading
pub mod Texts
pub mod ProgramRules
pub mod Spellings
