pub mod Spots
pub mod Plans
