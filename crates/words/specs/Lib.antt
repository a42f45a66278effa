pub mod Word
pub mod Answer
pub mod Sees
pub mod Answers
