pub mod Places
pub mod Moves
pub mod Copied
pub mod Rows
pub mod Frames
pub mod Migrated
pub mod Copies
pub mod private
