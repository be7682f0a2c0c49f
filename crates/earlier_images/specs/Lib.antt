pub mod Used
pub mod Rows
pub mod Grammar
pub mod Images
pub mod private
