pub mod Commands
pub mod Failures
pub mod Moments
