pub mod Reach
pub mod Images
pub mod Collecting
pub mod Receipts
