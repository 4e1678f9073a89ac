pub mod Telling
pub mod Contents
pub mod Replies
pub mod Generated
pub mod CompileOutcome
