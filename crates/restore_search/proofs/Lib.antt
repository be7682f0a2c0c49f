pub mod Each
mod Knowing
