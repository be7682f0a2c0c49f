pub mod Leaving
pub mod Memory
