pub mod Sections
pub mod Writing
