pub mod Types
pub mod Procedures
pub mod Indexed
pub mod Scope
