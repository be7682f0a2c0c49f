pub mod Called
pub mod Contents
pub mod Staying
pub mod Taking
