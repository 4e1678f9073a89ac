pub mod Written
pub mod Exit
