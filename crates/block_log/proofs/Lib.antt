pub mod Places
pub mod Taking
mod Names
pub mod BlockKinds
