pub mod Marks
pub mod Header
pub mod Frames
pub mod Rows
pub mod Spans
pub mod Audit
pub mod Image
pub mod Causes
