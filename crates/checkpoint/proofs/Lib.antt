pub mod Places
pub mod OwnBlocks
pub mod Reading
pub mod Counted
pub mod Dropping
pub mod Writing
pub mod Caching
