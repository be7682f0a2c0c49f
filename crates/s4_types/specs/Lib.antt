pub mod Pointer
pub mod AuditKinds
pub mod History
pub mod RefusalNumber
pub mod Sizes
