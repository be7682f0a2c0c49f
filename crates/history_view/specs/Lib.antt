pub mod Changes
pub mod Contents
pub mod Listing
pub mod LogRows
pub mod Logs
pub mod Names
