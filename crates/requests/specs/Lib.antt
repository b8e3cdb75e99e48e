pub mod Grammar
pub mod Meaning
pub mod Reader
pub mod Said
pub mod Values
