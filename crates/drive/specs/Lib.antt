pub mod Fields
pub mod Keeping
pub mod Upkeep
pub mod Refusing
pub mod Opened
pub mod Answering
pub mod Later
