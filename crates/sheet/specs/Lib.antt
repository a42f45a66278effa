pub mod Bytes
pub mod Layout
pub mod Quals
pub mod Reader
pub mod Instructions
pub mod Decode
pub mod Meaning
