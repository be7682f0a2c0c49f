pub mod Moving
pub mod Actors
pub mod Carrying
pub mod Acting
pub mod Upkeep
pub mod Running
pub mod Telling
