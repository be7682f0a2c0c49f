pub mod Finding
pub mod Writing
