pub mod Drawing
pub mod Starts
pub mod Durations
