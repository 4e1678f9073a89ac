pub mod ScheduleText
pub mod Answer
pub mod inner
