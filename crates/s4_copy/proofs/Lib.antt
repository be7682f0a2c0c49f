pub mod Failing
pub mod Lost
pub mod Wanting
