mod Ends
mod Lines
pub mod Given
pub mod Left
pub mod Promised
pub mod Said
pub mod Settled
mod Status
pub mod Unmigrated
mod Zips
