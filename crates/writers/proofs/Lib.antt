pub mod Change
pub mod Flat
pub mod View
pub mod Effects
pub mod Planned
