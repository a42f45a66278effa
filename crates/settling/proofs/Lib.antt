pub mod Laws
pub mod Actuals
