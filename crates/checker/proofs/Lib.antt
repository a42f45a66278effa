pub mod Filled
mod Room
