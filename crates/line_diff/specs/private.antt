pub mod Trimming
pub mod Reaching
pub mod Finding
