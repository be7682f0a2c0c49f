pub mod Texts
pub mod Printed
pub mod Words
