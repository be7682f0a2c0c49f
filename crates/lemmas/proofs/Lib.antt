pub mod Bool
pub mod Nat
pub mod Option
pub mod Result
pub mod List
pub mod Contains
pub mod Bytes
pub mod Range
