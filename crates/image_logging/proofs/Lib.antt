pub mod Following
pub mod Kept
