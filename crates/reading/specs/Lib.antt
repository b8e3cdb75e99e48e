pub mod Answer
pub mod Meaning
pub mod Shown
