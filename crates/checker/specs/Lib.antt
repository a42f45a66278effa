pub mod Calls
pub mod Input
pub mod Said
