pub mod Location
pub mod Origin
pub mod Chain
pub mod Claim
