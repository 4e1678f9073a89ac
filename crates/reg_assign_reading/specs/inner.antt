pub mod Facts
pub mod Chosen
pub mod Reading
pub mod PlanTables
