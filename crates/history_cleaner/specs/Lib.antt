pub mod Laws
pub mod Sight
pub mod Cleaning
pub mod Emptying
pub mod Reaching
pub mod Passing
pub mod private
pub mod Rounds
