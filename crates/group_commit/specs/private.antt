pub mod Given
pub mod Ending
pub mod Last
