pub mod WordLemmas
pub mod LineLemmas
pub mod TextLemmas
pub mod FaultLemmas
pub mod ExactLemmas
pub mod PrintLemmas
pub mod Worked
