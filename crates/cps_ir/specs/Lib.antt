pub mod Term
pub mod View
pub mod Spine
pub mod Meaning
pub mod Formed
pub mod Wide
pub mod Bulk
pub mod Callless
