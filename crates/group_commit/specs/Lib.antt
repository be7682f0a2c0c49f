pub mod Commit
pub mod private
