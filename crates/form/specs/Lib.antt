pub mod WellFormed
pub mod Named
pub mod Yields
