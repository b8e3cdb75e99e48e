pub mod Values
pub mod Kind
pub mod Levels
pub mod Bytes
pub mod Laws
pub mod Writer
