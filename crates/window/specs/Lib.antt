pub mod Runs
pub mod Chunks
pub mod Timeline
