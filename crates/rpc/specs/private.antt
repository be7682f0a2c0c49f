pub mod Reading
pub mod Room
pub mod Filling
