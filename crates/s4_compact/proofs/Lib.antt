pub mod Tried
pub mod Finished
