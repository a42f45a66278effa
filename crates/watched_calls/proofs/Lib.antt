pub mod Laws
pub mod Calling
pub mod Returning
