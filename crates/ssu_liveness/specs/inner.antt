pub mod Live
pub mod PointIds
pub mod Numbers
