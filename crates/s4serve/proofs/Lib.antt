pub mod Collected
pub mod Created
pub mod DoorLemmas
pub mod Growing
pub mod HeardLemmas
pub mod Served
pub mod Tracing
