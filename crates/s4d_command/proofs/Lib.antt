pub mod CommandLineLemmas
pub mod LineLemmas
pub mod Parsed
pub mod SessionLemmas
