pub mod Holding
pub mod Saying
pub mod Cutting
pub mod Going
pub mod Filling
