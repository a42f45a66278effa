pub mod Performs
pub mod Fetch
pub mod Frames
