pub mod Streams
pub mod Drawing
pub mod Answering
pub mod Session
