pub mod Spelling
pub mod Stream
pub mod Laws
pub mod private
