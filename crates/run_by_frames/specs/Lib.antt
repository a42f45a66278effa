pub mod Reply
pub mod Turn
