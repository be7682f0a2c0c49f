pub mod Letters
pub mod Plain
