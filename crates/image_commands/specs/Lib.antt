pub mod Beside
pub mod Crashes
pub mod Faults
pub mod Files
pub mod Leaving
pub mod Making
pub mod ReadingPast
pub mod Verifying
