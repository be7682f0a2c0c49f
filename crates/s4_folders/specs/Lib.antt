pub mod Exporting
pub mod Salvaging
