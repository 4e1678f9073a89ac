pub mod Formatted
