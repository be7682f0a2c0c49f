mod Later
mod Covering
pub mod Files
pub mod Counts
pub mod Seen
