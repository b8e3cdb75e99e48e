pub mod Failures
pub mod Shows
pub mod Texts
