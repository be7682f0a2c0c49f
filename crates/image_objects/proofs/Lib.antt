pub mod Parts
pub mod Moments
pub mod Sizes
pub mod RowWalk
pub mod Named
mod HeldByName
mod Kept
mod Listed
pub mod MomentsOnce
mod Pointing
mod Checkpoints
mod FirstPlaces
pub mod SavedObject
mod SavedRows
mod SavedStore
mod Saving
mod Sorted
mod Standing
mod Storing
mod Telling
mod Told
mod Using
pub mod Bytes
pub mod Firsts
pub mod Walking
pub mod Judging
pub mod Seconds
pub mod Grouping
mod Writing
mod OldCheckpoints
pub mod Holding
pub mod Earlier
pub mod Running
pub mod Undoing
pub mod Beginning
pub mod Ordering
pub mod Leading
pub mod Keeping
