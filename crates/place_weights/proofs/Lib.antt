pub mod Bounds
pub mod Lines
pub mod Faults
pub mod Exact
pub mod Printed
