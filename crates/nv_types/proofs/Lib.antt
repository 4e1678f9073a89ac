pub mod FindingMain
pub mod BoundedRoom
pub mod Measured
pub mod OnlyRefusals
