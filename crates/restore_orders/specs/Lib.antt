pub mod Choosing
pub mod Dating
pub mod Lines
pub mod MakingRoom
pub mod Means
pub mod Orders
pub mod Reaching
pub mod Restoring
