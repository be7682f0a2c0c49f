pub mod AnsweringLemmas
pub mod SessionLemmas
pub mod ClockLemmas
pub mod StreamLemmas
