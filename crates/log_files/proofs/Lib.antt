pub mod Calling
pub mod Steps
pub mod Writing
