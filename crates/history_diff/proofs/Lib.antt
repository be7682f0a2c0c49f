mod Took
mod Apart
mod Alike
mod Pieces
mod Floats
mod Rows
mod Only
mod Written
