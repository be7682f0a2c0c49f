pub mod Contents
pub mod Tidiness
pub mod Growth
pub mod Touched
pub mod Changed
pub mod Laws
pub mod private
