pub mod Reading
pub mod Emptying
pub mod Counting
pub mod Putting
pub mod Chains
