pub mod Splitting
pub mod Lists
pub mod Turning
pub mod Scripts
pub mod Spanning
pub mod PlaceCounts
pub mod Hunks
pub mod Patches
