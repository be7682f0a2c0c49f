pub mod Cutting
pub mod Exact
pub mod Fewer
pub mod Whole
pub mod Blocks
