pub mod Ranges
pub mod Differences
pub mod Lines
pub mod Patches
pub mod Json
pub mod Texts
pub mod Diffing
pub mod private
