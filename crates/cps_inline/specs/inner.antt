pub mod Inlined
