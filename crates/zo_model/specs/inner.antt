pub mod LineFault
pub mod ProgramFault
pub mod TermParts
