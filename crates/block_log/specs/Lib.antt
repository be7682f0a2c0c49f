pub mod Log
pub mod Growth
pub mod Taken
pub mod Laws
