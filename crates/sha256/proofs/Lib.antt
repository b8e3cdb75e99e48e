pub mod Chunks
pub mod Steps
pub mod Whole
