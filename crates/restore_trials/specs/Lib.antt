pub mod Surveys
pub mod Trying
