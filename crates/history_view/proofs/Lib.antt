pub mod Shown
pub mod Seen
mod Read
pub mod Asked
pub mod Outside
pub mod Sifted
pub mod Fronts
pub mod Named
pub mod Logged
