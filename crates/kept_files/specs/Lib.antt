pub mod Besides
pub mod Causes
pub mod Places
