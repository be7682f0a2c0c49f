pub mod Surveying
pub mod Copying
