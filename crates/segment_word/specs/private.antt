pub mod Pins
pub mod UnreadWords
