pub mod Recent
pub mod Moved
pub mod Rewritten
pub mod Moving
pub mod Laws
pub mod private
