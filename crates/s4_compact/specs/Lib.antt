pub mod Compacting
pub mod Trying
pub mod Ways
