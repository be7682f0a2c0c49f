pub mod Sectors
pub mod Records
pub mod Tails
pub mod Headers
pub mod Logs
pub mod Kept
pub mod Single
pub mod Refusals
