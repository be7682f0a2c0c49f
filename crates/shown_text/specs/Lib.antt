pub mod Hidden
pub mod Shown
