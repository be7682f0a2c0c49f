pub mod Ends
pub mod Places
pub mod Walked
pub mod Standing
