pub mod Cached
pub mod Held
pub mod private
