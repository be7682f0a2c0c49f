pub mod Checking
pub mod Further
