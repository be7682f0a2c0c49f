pub mod Padding
pub mod Cutting
