pub mod Checks
pub mod Covering
pub mod Exports
pub mod Folders
pub mod Manifest
pub mod Versions
