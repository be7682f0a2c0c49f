pub mod Dates
pub mod Ages
pub mod ReadBack
