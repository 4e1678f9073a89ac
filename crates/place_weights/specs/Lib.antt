pub mod Weighted
pub mod WeightsText
pub mod Answer
pub mod inner
