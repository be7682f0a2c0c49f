pub mod Counting
pub mod Images
pub mod Maps
pub mod Searching
