pub mod OneRow
pub mod Rest
