pub mod Told
pub mod Runs
pub mod Retold
mod Past
