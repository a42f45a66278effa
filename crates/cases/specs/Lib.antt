pub mod Sheets
pub mod Small
pub mod Accepted
pub mod Editions
pub mod Chains
pub mod GeneratedChains
pub mod Refused
