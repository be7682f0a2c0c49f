pub mod Whole
pub mod Cuts
pub mod Loops
pub mod Spelled
pub mod Even
pub mod Short
pub mod Fresh
