pub mod Batches
pub mod Saying
pub mod Showing
pub mod Waiting
pub mod private
