pub mod Page
pub mod Timeline
pub mod Table
pub mod Flushes
pub mod Differences
pub mod Report
pub mod Markup
pub mod private
