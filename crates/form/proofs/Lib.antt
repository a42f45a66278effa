pub mod Laws
pub mod Procedures
pub mod WellFormed
pub mod Numbers
