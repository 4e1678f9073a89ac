pub mod Unlike
pub mod TraceText
