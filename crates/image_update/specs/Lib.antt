pub mod Changes
pub mod Pairs
pub mod Layout
pub mod Encoding
pub mod Bounds
