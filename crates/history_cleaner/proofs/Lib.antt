pub mod Stored
pub mod Standing
pub mod Showing
pub mod Seeing
pub mod EachEntry
pub mod Putting
pub mod Emptied
pub mod Reached
pub mod Holding
pub mod Left
pub mod Sweeping
pub mod Few
pub mod Passing
pub mod Rising
mod Promised
