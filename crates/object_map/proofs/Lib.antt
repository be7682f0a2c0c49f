pub mod Mapped
pub mod Padded
