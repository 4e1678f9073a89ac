pub mod Spelling
pub mod Places
pub mod MemoryText
pub mod OutcomeText
pub mod Answer
pub mod Worked
pub mod inner
