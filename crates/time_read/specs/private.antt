pub mod EarlierPointers
pub mod Nearest
pub mod Planning
pub mod Sources
