pub mod Aging
pub mod Dry
pub mod Finding
pub mod Learning
pub mod Said
