pub mod Holding
pub mod OneRow
pub mod AuditRows
pub mod Rest
