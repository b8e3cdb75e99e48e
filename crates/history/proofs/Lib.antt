pub mod Folds
pub mod Written
