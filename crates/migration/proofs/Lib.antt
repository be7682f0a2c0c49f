mod Sorting
pub mod Ascending
mod Moving
mod Appending
mod Mapping
mod Written
mod CopiedRows
mod CanCopy
mod Then
mod Whole
mod Parts
mod Fronts
mod Filled
mod Done
mod Left
mod CopiedImages
