pub mod Linked
pub mod Redone
pub mod Runs
pub mod Groups
pub mod Between
pub mod Sizes
pub mod Laws
pub mod private
