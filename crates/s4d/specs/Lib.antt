pub mod Migrating
pub mod Opening
pub mod Performing
pub mod Piping
pub mod Promised
pub mod Running
