pub mod Building
pub mod Forms
pub mod Naming
pub mod Programs
pub mod inner
pub mod Sources
