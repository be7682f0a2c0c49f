pub mod Audit
pub mod Json
pub mod Lines
