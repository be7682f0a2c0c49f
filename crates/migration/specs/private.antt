pub mod Copying
pub mod CopyLaws
pub mod Ranks
pub mod Copied
pub mod Written
pub mod Left
