mod Differing
mod Lines
mod Pages
mod Rows
mod Written
mod Safe
pub mod Markup
mod OwnMarks
