pub mod Asking
pub mod Counting
pub mod Copying
pub mod Failures
