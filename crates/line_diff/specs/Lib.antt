pub mod Lines
pub mod Script
pub mod Spans
pub mod Unified
pub mod Patching
pub mod private
