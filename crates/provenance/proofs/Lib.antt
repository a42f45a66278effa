pub mod Locations
pub mod Bindings
pub mod Links
pub mod Calls
pub mod Steps
pub mod Chains
