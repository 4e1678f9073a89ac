pub mod Hoisted
