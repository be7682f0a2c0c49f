pub mod Sizes
pub mod Packing
pub mod Chain
pub mod Push
pub mod Writing
pub mod Back
