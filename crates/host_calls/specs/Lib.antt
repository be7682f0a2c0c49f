pub mod Events
pub mod Files
pub mod Note
pub mod Replay
pub mod Worlds
