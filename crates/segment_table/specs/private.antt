pub mod Putting
pub mod Storing
