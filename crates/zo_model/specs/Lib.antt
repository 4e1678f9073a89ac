pub mod Contents
pub mod Program
pub mod ProgramText
pub mod ProgramAnswer
pub mod inner
