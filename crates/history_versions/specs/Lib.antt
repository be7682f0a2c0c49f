pub mod Json
pub mod Lines
pub mod Printed
pub mod Stops
